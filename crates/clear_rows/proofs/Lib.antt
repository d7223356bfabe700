pub mod Sifting
pub mod Sparing
pub mod Mirroring
