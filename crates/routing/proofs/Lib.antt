pub mod TightKeys
pub mod Walks
pub mod Written
pub mod Unique
pub mod Fits
pub mod Checking
pub mod Maps
