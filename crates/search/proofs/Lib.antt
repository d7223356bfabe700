pub mod Parts
pub mod Words
pub mod Relaxing
pub mod Steps
pub mod Network
pub mod LowerBounds
