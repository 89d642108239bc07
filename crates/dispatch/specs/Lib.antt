-- What performing answers, and the plain step. Assumes nothing: these are definitions.
pub mod Plain
pub mod Dispatch
