pub mod Simple
pub mod Follows
pub mod Groups
pub mod Takes
pub mod WholeText
pub mod Keeping
pub mod KeepingSteps
