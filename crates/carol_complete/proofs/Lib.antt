pub mod Passing
pub mod Succeeding
pub mod Deciding
