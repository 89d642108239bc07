-- What the code of this crate does. Assumes nothing: these are definitions.
pub mod Move
