pub mod Generated
pub mod Layout
pub mod Laws
