pub mod Marking
pub mod Mirroring
pub mod Opening
pub mod Remainders
