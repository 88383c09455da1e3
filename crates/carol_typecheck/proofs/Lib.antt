pub mod Lists
pub mod Judging
pub mod Settling
pub mod Scanning
pub mod Meaning
