pub mod Reaching
pub mod Growing
pub mod Leading
