pub mod Areas
pub mod Formattings
pub mod Fields
