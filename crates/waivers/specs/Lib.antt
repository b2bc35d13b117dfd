pub mod Days
pub mod Fields
pub mod File
pub mod Row
pub mod Cover
