pub mod Counts
pub mod Playing
pub mod Turning
pub mod Single
pub mod Done
pub mod Sessions
pub mod Texts
