pub mod Cells
pub mod Promise
