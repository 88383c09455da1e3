pub mod Accorded
pub mod Checked
