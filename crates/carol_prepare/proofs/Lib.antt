pub mod Firsts
pub mod Refusals
pub mod Told
pub mod Settled
