pub mod Rule
pub mod Reading
pub mod Answers
pub mod Example
