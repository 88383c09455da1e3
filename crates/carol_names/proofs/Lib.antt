pub mod NameLaws
pub mod Counts
pub mod Bounds
pub mod Meanings
pub mod Worths
