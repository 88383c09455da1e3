pub mod Equivalences
pub mod Each
pub mod Parts
pub mod Agreeing
pub mod Seen
pub mod Follows
pub mod Rounds
pub mod GoodRounds
pub mod Amounts
pub mod Guarded
pub mod Settling
pub mod Going
pub mod Ends
pub mod Encoded
pub mod TruthForms
pub mod Numbers
pub mod KnownLaws
pub mod Readings
pub mod Effects
pub mod OwedLaws
pub mod Exact
pub mod Light
pub mod Sizes
pub mod Steps
pub mod Spots
pub mod Alike
mod PartTerms
mod Loops
mod Gathering
mod Places
mod Handing
