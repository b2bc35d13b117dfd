pub mod Elements
pub mod Refusing
pub mod Naming
pub mod Outside
pub mod OutsideIndexes
pub mod Building
pub mod Meaning
pub mod Driving
