pub mod Printing
pub mod Unique
