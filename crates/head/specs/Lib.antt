pub mod Heads
pub mod Reading
pub mod Writing
pub mod Told
