pub mod LineEnds
pub mod LineWords
pub mod Places
pub mod Same
pub mod Turns
pub mod Tokens
