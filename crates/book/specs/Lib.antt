pub mod Questions
pub mod Book
pub mod Drawing
pub mod OldRule
pub mod Edits
pub mod History
pub mod inner
