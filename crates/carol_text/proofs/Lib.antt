pub mod Words
pub mod Numbers
pub mod Found
pub mod Laws
