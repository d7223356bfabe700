pub mod Zones
pub mod Lazy
