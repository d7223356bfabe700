pub mod Filling
pub mod Outcomes
pub mod Unique
pub mod Back
