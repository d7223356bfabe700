pub mod Records
pub mod Conversions
pub mod inner
