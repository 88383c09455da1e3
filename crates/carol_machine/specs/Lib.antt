pub mod States
pub mod Wishes
pub mod Feeds
