pub mod Pieces
pub mod Joins
pub mod Spots
pub mod Rows
pub mod Exists
pub mod Examples
