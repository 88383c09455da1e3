pub mod Orders
pub mod Trying
pub mod Standing
pub mod Answering
