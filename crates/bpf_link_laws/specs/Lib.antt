pub mod Setups
pub mod Files
pub mod Codes
pub mod Joins
