pub mod All
pub mod Loops
pub mod Answers
pub mod Fits
pub mod Filled
pub mod Places
