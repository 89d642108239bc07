-- Laws of this crate. Assumes nothing.
pub mod StateLaws
pub mod PrLaws
pub mod DoesLaws
pub mod PassingLaws
