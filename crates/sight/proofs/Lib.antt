pub mod Cones
pub mod Diagonals
pub mod Tests
