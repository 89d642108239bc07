-- Laws of this crate. Assumes nothing.
pub mod BitLaws
pub mod OpcodeLaws
pub mod NameLaws
