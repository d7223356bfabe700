pub mod Sizes
pub mod Corners
pub mod Steps
