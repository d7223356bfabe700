pub mod Bounds
pub mod Sides
pub mod Overlapping
pub mod Search
