pub mod OverTokens
pub mod Skipped
pub mod PinReads
pub mod Simple
pub mod Repeats
pub mod MacroReads
pub mod OutsideReads
pub mod FirstAnswers
pub mod OneAnswer
pub mod Public
pub mod TurnsLead
mod Keeps
mod MacroKept
pub mod Lawful
