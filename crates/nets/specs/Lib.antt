pub mod Net
pub mod inner
