-- What the contracts of this crate cite. Assumes nothing: these are definitions.
pub mod Table
pub mod Name
