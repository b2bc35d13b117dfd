pub mod NextNames
pub mod Terminals
pub mod LastTold
pub mod Simple
pub mod Begins
pub mod Follows
pub mod Lawful
