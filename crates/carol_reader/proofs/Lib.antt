pub mod Classes
pub mod Halting
pub mod Folding
pub mod Literals
