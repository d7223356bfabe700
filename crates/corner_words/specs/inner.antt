pub mod Corners
pub mod Mirrors
