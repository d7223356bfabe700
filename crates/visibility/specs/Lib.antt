pub mod Visibility
pub mod inner
