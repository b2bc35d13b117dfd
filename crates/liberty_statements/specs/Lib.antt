pub mod Actions
pub mod Grammar
pub mod Steps
pub mod ToCome
pub mod Does
pub mod Bounds
pub mod Answer
