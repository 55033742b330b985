pub mod Items
pub mod Texts
pub mod Totals
pub mod Summaries
pub mod Parts
