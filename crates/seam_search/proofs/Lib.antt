pub mod Marking
pub mod Walking
