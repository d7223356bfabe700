pub mod Filled
pub mod Tells
