pub mod Charts
pub mod Directions
