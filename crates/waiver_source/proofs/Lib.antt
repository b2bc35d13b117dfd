mod Orders
mod Listed
mod Raising
mod Firsts
mod Found
mod Raised
