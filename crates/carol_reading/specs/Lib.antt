pub mod Marks
pub mod Parts
pub mod Readings
pub mod Rounds
pub mod Good
pub mod Kept
pub mod Walks
pub mod Nexts
