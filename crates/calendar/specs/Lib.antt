pub mod Gregorian
pub mod Order
