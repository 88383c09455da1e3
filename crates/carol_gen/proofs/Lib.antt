pub mod Succeeds
