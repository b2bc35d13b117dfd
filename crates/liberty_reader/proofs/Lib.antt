pub mod Lawful
pub mod CellLists
pub mod Made
pub mod Public
