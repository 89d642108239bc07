-- Laws of this crate. Assumes nothing.
mod CheckLaws
mod NumberLaws
mod LineLaws
