pub mod Parts
pub mod Pieces
pub mod Answers
pub mod Held
