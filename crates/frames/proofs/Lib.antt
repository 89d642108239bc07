-- Laws of this crate. Assumes nothing.
pub mod SaveLaws
pub mod FrameLaws
