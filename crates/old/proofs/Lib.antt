-- The laws that the proofs of this crate rest on. Assumes nothing.
pub mod SegmentLaws
