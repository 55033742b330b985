pub mod Parts
pub mod Layings
pub mod Messages
