pub mod Behind
pub mod Directions
pub mod Holdings
pub mod Ways
