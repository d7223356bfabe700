pub mod Grid
pub mod inner
