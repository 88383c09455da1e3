pub mod Following
pub mod Lookups
pub mod Gathering
pub mod Fitting
pub mod Going
pub mod Deciding
mod Witnesses
