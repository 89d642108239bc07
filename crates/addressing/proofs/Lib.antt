-- Laws of this crate. Assumes nothing.
pub mod AddressLaws
pub mod ChainLaws
pub mod WalkLaws
pub mod MapErrLaws
