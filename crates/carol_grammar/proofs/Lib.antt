pub mod SetLemmas
pub mod ReadingLemmas
pub mod Right
pub mod RightBoth
pub mod RightMany
pub mod RightParts
pub mod RightRule
pub mod RightDeep
pub mod Grows
pub mod Alike
pub mod AlikeParts
pub mod AlikeRule
pub mod AlikeDeep
pub mod Answered
pub mod Repeating
pub mod Says
pub mod Given
pub mod Lacks
pub mod RulesSound
pub mod OneTree
pub mod TokenKinds
pub mod Counted
pub mod Splits
pub mod FirstMet
pub mod Once
pub mod FileEnds
pub mod Told
mod Places
mod Fits
mod Steps
mod Terms
mod Formulas
mod Statements
mod Bodies
mod Programs
mod Scripts
mod Files
