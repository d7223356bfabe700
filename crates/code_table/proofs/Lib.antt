pub mod Narrow
pub mod Lines
pub mod Rows
