pub mod Spellings
pub mod Codes
pub mod Characters
pub mod Reading
pub mod Writing
pub mod Utf8Forms
