pub mod Headers
pub mod Links
pub mod Faults
pub mod Packets
pub mod Notes
pub mod Choices
