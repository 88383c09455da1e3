pub mod Issues
pub mod Summary
pub mod Plays
pub mod Turns
pub mod Laws
pub mod Report
