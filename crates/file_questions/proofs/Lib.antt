pub mod Steps
pub mod Asking
pub mod Answers
