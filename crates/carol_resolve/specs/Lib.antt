pub mod Scoped
pub mod Heads
pub mod Issues
pub mod Points
pub mod Counts
