pub mod Growth
pub mod Playings
pub mod Askings
