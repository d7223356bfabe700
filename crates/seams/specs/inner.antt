pub mod Reach
pub mod Near
