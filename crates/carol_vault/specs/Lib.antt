pub mod Finding
pub mod Laws
pub mod Opening
pub mod States
pub mod Steps
pub mod Vaults
