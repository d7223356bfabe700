pub mod Addable
