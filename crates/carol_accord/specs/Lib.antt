pub mod Broken
pub mod Formed
pub mod Inferred
pub mod Parts
