-- Laws of this crate. Assumes nothing.
pub mod FrontLaws
pub mod LastLaws
pub mod CompactLaws
pub mod StartLaws
