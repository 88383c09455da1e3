pub mod Lists
pub mod Behind
pub mod Guarding
pub mod Keeping
pub mod Ordering
pub mod Powers
pub mod Bounds
pub mod Most
