-- Laws of this crate. Assumes nothing.
pub mod NumberLaws
pub mod MarkLaws
pub mod RegisterLaws
