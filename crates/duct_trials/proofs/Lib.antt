pub mod Checker
pub mod Square
pub mod Yards
pub mod Trials
