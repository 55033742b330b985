pub mod Cells
pub mod Sizes
pub mod Pages
pub mod Memories
pub mod Grids
pub mod Offsets
