pub mod Asking
pub mod Granting
