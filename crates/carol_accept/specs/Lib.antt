pub mod Named
pub mod Trails
pub mod Fitting
pub mod Lines
pub mod LineLaws
pub mod Texts
pub mod Refusals
pub mod Verdicts
