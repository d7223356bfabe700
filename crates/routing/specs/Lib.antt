pub mod Routes
pub mod inner
