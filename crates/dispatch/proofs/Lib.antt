-- Laws of this crate. Assumes nothing.
pub mod PerformLaws
pub mod PlainLaws
