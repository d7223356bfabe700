pub mod Sums
pub mod Cuts
pub mod Labels
