pub mod Length
pub mod Charge
pub mod inner
