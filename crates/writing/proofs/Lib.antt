-- Laws of this crate. Assumes nothing.
pub mod NumberLaws
pub mod PutLaws
pub mod PrsLaws
pub mod WordsLaws
