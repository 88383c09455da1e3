pub mod Edges
pub mod Forest
pub mod Rows
pub mod Decision
pub mod Split
pub mod Graph
pub mod Evidence
