pub mod Names
pub mod Command
pub mod Files
pub mod Outcome
pub mod Top
pub mod Driving
