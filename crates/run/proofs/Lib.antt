-- Laws of this crate. Assumes nothing.
pub mod RunLaws
pub mod TraceLaws
pub mod TurnLaws
