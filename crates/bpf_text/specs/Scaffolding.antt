-- Scaffolding: no public contract cites these modules. They say what private functions promise one another, so nobody has to believe them.
pub mod Cuts
pub mod Instructions
pub mod Labels
pub mod Lines
pub mod Named
pub mod Rounds
pub mod Rows
pub mod Slots
pub mod Terms
pub mod TextKey
pub mod Tokens
