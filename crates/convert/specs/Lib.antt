pub mod Convert
pub mod inner
