-- Laws of this crate. Assumes nothing.
pub mod LineLaws
pub mod KeptLaws
pub mod LengthLaws
