pub mod Labelling
pub mod Nexts
pub mod Trails
pub mod Ending
pub mod Reading
