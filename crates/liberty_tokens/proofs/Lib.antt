pub mod Contents
pub mod RowColumns
