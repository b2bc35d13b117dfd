pub mod Dates
pub mod Entering
pub mod Kept
pub mod Covering
pub mod Codes
pub mod Wrong
