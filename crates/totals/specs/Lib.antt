pub mod Totals
pub mod inner
