pub mod Again
pub mod Stays
