mod Totals
mod Steps
