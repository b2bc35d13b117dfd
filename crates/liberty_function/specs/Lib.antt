pub mod Sources
pub mod Words
pub mod Function
pub mod Compiling
pub mod Texts
