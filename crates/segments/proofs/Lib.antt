-- Laws of this crate. Assumes nothing.
pub mod TranslateLaws
pub mod SegmentLaws
pub mod UseLaws
