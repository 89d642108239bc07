-- Laws of this crate. Assumes nothing.
pub mod AccessLaws
pub mod RegisterLaws
