pub mod Classes
pub mod Flow
pub mod Laws
pub mod Sources
pub mod Walking
pub mod Checks
pub mod Pictures
