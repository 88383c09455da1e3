pub mod Audited
pub mod Genuine
