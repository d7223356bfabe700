pub mod Quote
pub mod inner
