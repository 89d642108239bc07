-- Laws of this crate. Assumes nothing.
pub mod LoadLaws
pub mod PieceLaws
