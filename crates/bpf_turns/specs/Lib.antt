pub mod Seats
pub mod Calls
pub mod Turned
pub mod Objects
pub mod Blocks
pub mod Ext
pub mod Parts
