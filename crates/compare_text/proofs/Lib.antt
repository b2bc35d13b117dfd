pub mod Growing
pub mod Saying
pub mod OneReport
pub mod Lines
