pub mod Lasting
pub mod Unique
pub mod Bytes
pub mod Exists
pub mod Straights
