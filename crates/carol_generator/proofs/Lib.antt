pub mod Written
pub mod Generating
pub mod Short
pub mod Formed
pub mod Places
pub mod Right
pub mod Commands
