pub mod Padding
pub mod Fronts
