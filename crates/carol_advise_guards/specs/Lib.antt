pub mod Under
pub mod Chains
pub mod Bars
pub mod Order
pub mod Listing
