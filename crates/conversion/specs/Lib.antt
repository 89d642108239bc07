-- What the code of this crate answers. Assumes nothing: these are definitions.
pub mod Piece
