pub mod Disk
pub mod Gates
pub mod Laws
pub mod Tapes
pub mod Windows
