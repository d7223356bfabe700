pub mod Reading
pub mod Replaying
