-- Laws of this crate. Assumes nothing.
pub mod RecordLaws
pub mod PartLaws
