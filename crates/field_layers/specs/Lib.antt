pub mod Layers
pub mod FieldAnswers
