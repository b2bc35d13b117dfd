pub mod Fields
pub mod Tech
pub mod Row
pub mod Held
