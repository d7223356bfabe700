pub mod Every
pub mod Below
pub mod Telling
pub mod Fills
pub mod Copies
pub mod Values
