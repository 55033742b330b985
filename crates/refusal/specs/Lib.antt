pub mod Numbers
pub mod Figures
pub mod Chain
