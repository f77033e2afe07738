pub mod Rows
pub mod Sizes
pub mod OnPacket
pub mod Words
pub mod Sources
pub mod Functions
pub mod Joins
pub mod Tables
