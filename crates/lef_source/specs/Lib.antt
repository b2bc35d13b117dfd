pub mod Lef
