pub mod Lazy
pub mod Zones
pub mod Begin
pub mod Steps
pub mod Turns
