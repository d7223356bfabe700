pub mod Sight
pub mod Diagonals
