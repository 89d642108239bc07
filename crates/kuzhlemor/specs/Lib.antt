-- What the C entry points promise. Assumes nothing: these are definitions.
pub mod Entry
