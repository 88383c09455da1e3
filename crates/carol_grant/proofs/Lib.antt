pub mod Bare
pub mod Bars
pub mod Counting
pub mod Kept
pub mod Lists
pub mod Ways
