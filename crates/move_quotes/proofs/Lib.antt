pub mod Asking
pub mod Moving
pub mod Unique
pub mod Exists
pub mod Panel
