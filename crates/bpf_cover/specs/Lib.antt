pub mod Coverage
pub mod Marking
pub mod Places
pub mod Runs
pub mod Sources
pub mod Spots
pub mod Texts
pub mod Tracefiles
