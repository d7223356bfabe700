pub mod Words
pub mod Blocks
pub mod Recs
pub mod Files
pub mod Walks
pub mod Trip
