pub mod Registers
pub mod Arithmetic
pub mod Expressions
pub mod Conditions
