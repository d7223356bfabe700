pub mod Quotients
pub mod Curves
pub mod Formula
pub mod Unique
pub mod Exists
