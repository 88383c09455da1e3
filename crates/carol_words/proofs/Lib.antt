pub mod Alike
pub mod Opened
