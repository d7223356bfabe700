pub mod Storing
pub mod Lowering
pub mod Carrying
pub mod Passing
pub mod Reading
pub mod Mapping
