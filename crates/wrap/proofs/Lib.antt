pub mod Flowing
pub mod Reading
pub mod Steps
pub mod Fits
pub mod Outcomes
pub mod Painting
