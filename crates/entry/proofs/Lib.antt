-- What the proofs of this crate share. Assumes nothing.
pub mod CallLaws
pub mod StepLaws
