pub mod Sums
pub mod Counts
pub mod Keeping
pub mod Going
pub mod Promise
pub mod Unique
pub mod Alike
pub mod Demand3
