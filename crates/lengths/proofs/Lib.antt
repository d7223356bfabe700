pub mod Squares
pub mod Roots
pub mod Guesses
pub mod Charges
