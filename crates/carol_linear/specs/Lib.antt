pub mod Names
pub mod Pruned
pub mod Place
pub mod Answer
pub mod Path
pub mod Near
pub mod Visit
pub mod State
