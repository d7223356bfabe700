pub mod Lists
pub mod Collecting
