pub mod Counts
pub mod Disks
