pub mod Charts
pub mod Reading
pub mod Stepping
pub mod Sizes
pub mod Directions
pub mod Ends
