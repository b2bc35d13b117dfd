pub mod Vectors
pub mod Rows
pub mod Parts
pub mod Pins
pub mod Reasons
pub mod Compare
pub mod Equal
pub mod Telling
