pub mod Settling
pub mod States
