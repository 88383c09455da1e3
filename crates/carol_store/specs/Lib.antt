pub mod Actions
pub mod Directions
pub mod Effects
pub mod Kinds
pub mod Laws
pub mod Stores
