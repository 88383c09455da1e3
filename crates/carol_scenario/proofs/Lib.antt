pub mod Fits
pub mod Firsts
pub mod Commands
pub mod Valid
