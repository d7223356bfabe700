pub mod Loops
pub mod Asking
