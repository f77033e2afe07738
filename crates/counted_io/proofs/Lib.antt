pub mod Appending
pub mod Cutting
pub mod HexDigits
pub mod Lines
pub mod Naturals
pub mod Numerals
pub mod Pieces
pub mod Places
