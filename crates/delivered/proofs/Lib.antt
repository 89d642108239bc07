-- Laws of this crate. Assumes nothing.
pub mod FollowLaws
mod StopLaws
mod PartLaws
mod PartingLaws
