pub mod Asks
pub mod Lines
pub mod Registers
pub mod Subcommands
pub mod TestParts
