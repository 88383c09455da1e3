pub mod Upheld
pub mod Laws
