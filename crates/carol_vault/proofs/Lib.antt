pub mod Founds
pub mod Keepings
pub mod OneFinding
pub mod Openings
