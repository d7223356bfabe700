pub mod Visits
pub mod Writing
pub mod Counting
pub mod Quoting
pub mod Measures
pub mod Unique
