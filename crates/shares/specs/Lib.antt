pub mod Shares
pub mod Calls
pub mod History
pub mod Promise
