pub mod Cuts
pub mod FirstPieces
pub mod Steps
pub mod Turns
pub mod Places
pub mod Edging
