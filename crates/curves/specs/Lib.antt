pub mod Floats
pub mod Curve
pub mod inner
