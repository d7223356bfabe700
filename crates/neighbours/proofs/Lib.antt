pub mod Bends
pub mod Enclosing
pub mod Answers
