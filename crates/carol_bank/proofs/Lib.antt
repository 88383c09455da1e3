pub mod Meant
pub mod Sums
pub mod Rows
pub mod Closed
pub mod Spots
pub mod Guard
pub mod Accepted
