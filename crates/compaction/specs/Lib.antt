-- What the code of this crate answers. Assumes nothing: these are definitions.
pub mod Front
pub mod Last
pub mod Compacted
pub mod Renewed
