-- Laws of this crate. Assumes nothing.
pub mod BytesLaws
pub mod PartLaws
