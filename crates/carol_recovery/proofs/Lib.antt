pub mod Scripts
pub mod Fronts
pub mod Going
pub mod Copied
pub mod Reading
