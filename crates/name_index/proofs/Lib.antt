mod Keys
pub mod Places
mod Index
