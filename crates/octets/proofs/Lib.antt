pub mod DigitLaws
pub mod PartLaws
pub mod Numerals
