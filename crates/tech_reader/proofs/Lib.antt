pub mod Entering
pub mod Joined
pub mod Lawful
