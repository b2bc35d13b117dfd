mod Names
mod Indexes
mod Lookups
mod Lists
mod Tables
pub mod OneList
