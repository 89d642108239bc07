-- What the values of this crate stand for. Assumes nothing: these are definitions.
pub mod Numbers
pub mod View
pub mod Record
