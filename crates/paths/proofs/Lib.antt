pub mod Order
pub mod Short
pub mod Best
pub mod Labels
pub mod Maps
