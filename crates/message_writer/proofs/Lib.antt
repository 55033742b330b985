pub mod Turns
pub mod PartLaws
pub mod MessageLaws
