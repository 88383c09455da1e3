pub mod Texts
pub mod Reply
pub mod Meaning
pub mod Status
