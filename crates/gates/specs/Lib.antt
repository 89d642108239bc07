-- 02's L10 as statements: only gates lead down, and which gates those are. Assumes nothing: these are definitions.
pub mod Falling
pub mod Listed
