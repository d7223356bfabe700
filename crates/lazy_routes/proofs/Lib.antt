pub mod Corners
pub mod TightKeys
