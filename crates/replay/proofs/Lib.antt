pub mod Taken
pub mod Going
pub mod Drawn
pub mod Numbers
pub mod Versions
