pub mod Numbered
pub mod Bounded
