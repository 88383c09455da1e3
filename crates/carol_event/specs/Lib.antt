pub mod Faults
pub mod Kinds
pub mod Lines
pub mod Numbers
pub mod Pushes
pub mod Texts
