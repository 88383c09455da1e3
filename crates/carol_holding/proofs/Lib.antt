pub mod Held
pub mod Listed
pub mod Rows
