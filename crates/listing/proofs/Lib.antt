pub mod Decimals
pub mod Putting
pub mod Cases
pub mod Unique
pub mod Examples
