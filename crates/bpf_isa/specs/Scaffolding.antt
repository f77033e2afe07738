-- Scaffolding: no public contract cites these modules. They say what private functions promise one another, so nobody has to believe them.
pub mod Codec
pub mod Checking
pub mod Demands
