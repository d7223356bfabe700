pub mod Told
pub mod Relaxing
