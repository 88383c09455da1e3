pub mod Answering
pub mod Cells
pub mod Ended
pub mod Exact
pub mod Guarded
pub mod Light
pub mod Listed
