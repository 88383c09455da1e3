pub mod Ending
pub mod Advising
pub mod Statuses
pub mod Words
pub mod Finding
pub mod Open
