pub mod Pairs
pub mod Splices
pub mod Kept
pub mod Marks
pub mod Replacing
pub mod Joined
pub mod Places
