pub mod OpWord
pub mod Found
pub mod Texts
pub mod Advise
pub mod Laws
