pub mod GateLemmas
pub mod Moments
pub mod Overlaying
pub mod Syncing
