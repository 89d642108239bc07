-- Laws of this crate. Assumes nothing.
pub mod TextLaws
pub mod DecimalLaws
pub mod DigitLaws
