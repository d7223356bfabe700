pub mod Tables
pub mod Written
pub mod inner
