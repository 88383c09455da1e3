pub mod Bytes
pub mod Named
pub mod Verdicts
pub mod Scenes
pub mod Parts
