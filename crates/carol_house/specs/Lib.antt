pub mod House
pub mod Moves
pub mod Kept
pub mod Nexts
pub mod Rows
