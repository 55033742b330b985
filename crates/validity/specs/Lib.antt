pub mod Zoning
pub mod Listing
pub mod ZoneLaws
pub mod Periods
