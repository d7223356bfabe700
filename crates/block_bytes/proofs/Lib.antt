pub mod Touching
pub mod Edited
