pub mod First
pub mod Formulas
pub mod Readings
pub mod Deciding
