pub mod Rulings
pub mod Firsts
pub mod TailLaws
pub mod Lines
pub mod Tails
pub mod Fitting
pub mod Findings
pub mod Laws
