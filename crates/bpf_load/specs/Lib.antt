pub mod Targets
pub mod Faults
pub mod Kinds
pub mod KindLaws
pub mod Notes
