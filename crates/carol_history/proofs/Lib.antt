pub mod Actors
pub mod Holdings
pub mod Orders
pub mod Low
pub mod Named
pub mod Goings
pub mod Determined
pub mod Single
pub mod Scripted
mod Witnesses
mod Rows
