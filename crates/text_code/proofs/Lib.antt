pub mod Decoding
pub mod Unique
pub mod Checking
pub mod Measuring
pub mod Laying
pub mod Utf8Bits
pub mod Utf8Ranges
pub mod Utf8Fronts
