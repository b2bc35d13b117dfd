pub mod Netlist
pub mod Tech
