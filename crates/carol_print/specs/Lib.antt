pub mod Pieces
pub mod Canonical
pub mod Spelled
pub mod Enclosing
pub mod ReadBack
pub mod Small
