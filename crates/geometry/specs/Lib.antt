pub mod Words
pub mod Obstruction
pub mod Overlap
pub mod Convexity
pub mod inner
