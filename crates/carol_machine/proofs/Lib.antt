pub mod Counting
pub mod Standing
pub mod Wishing
pub mod Joining
