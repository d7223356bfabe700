pub mod Counting
pub mod Summing
pub mod Totals
