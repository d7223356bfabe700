pub mod Seam
pub mod inner
