pub mod Asking
pub mod Unique
pub mod Exists
pub mod Panel
