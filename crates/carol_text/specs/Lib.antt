pub mod Reading
pub mod Number
