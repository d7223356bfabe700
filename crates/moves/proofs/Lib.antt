pub mod Shifting
pub mod Standing
