-- What a set stands for. Assumes nothing: these are definitions.
pub mod Set
