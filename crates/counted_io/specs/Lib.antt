pub mod Counted
pub mod Cuts
pub mod Lines
pub mod Numerals
pub mod Pieces
pub mod Reading
pub mod Writing
