pub mod Until
pub mod Size
pub mod Places
pub mod Scan
pub mod Flat
pub mod Firm
pub mod Moved
