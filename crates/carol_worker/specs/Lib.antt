pub mod Answers
pub mod Tally
pub mod Desks
pub mod Serving
pub mod Hands
pub mod Rosters
pub mod Running
pub mod Starts
