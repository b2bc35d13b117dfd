pub mod Repeats
pub mod Binds
