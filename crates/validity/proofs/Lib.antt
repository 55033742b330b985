pub mod Packing
pub mod Scanning
pub mod Digiting
pub mod Listings
pub mod ZoneAnswers
pub mod Writings
