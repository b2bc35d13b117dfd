pub mod Words
pub mod Lines
pub mod WellFormed
pub mod Block
pub mod Told
