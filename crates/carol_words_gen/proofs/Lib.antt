pub mod Turned
pub mod Summed
