pub mod LowerBound
pub mod Keys
pub mod Parts
