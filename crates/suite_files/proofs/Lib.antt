pub mod Desking
pub mod Faulting
pub mod Naming
pub mod Shelving
pub mod Strings
