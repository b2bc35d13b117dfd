pub mod Lines
pub mod Words
pub mod Tokens
pub mod Kinds
pub mod Cards
pub mod Left
