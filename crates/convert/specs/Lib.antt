-- What this program's functions keep. Assumes nothing: these are definitions.
pub mod Turn
