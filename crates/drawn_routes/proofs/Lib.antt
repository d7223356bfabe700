pub mod Asking
pub mod Routes
pub mod Filling
pub mod Unique
pub mod Exists
pub mod Joins
