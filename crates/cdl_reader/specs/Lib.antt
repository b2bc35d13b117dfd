pub mod Words
pub mod Pins
pub mod Parts
pub mod Actions
pub mod Grammar
pub mod Told
pub mod Steps
