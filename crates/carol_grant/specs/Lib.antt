pub mod Bars
pub mod Counts
pub mod Grants
pub mod Kept
pub mod Tallies
