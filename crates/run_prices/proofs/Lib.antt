pub mod Unique
pub mod Exists
pub mod Pricing
pub mod Filling
