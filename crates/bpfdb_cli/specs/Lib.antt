pub mod CommandLine
pub mod Scaffolding
pub mod Subcommands
pub mod Plans
