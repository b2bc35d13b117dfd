pub mod Tables
pub mod Rules
pub mod Findings
pub mod Index
pub mod Held
pub mod Lookups
pub mod Makers
