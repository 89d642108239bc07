-- Laws of this crate. Assumes nothing.
pub mod PieceLaws
pub mod WholeLaws
