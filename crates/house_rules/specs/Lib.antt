pub mod Rules
pub mod Book
