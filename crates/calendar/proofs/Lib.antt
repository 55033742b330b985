pub mod Bounds
pub mod Ranking
pub mod Sums
pub mod Years
