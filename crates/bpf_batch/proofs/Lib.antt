pub mod Answering
pub mod Begun
pub mod Ran
pub mod Writings
