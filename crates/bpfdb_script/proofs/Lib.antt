pub mod ByteTexts
pub mod Cuts
pub mod Lines
pub mod Readings
pub mod Seen
pub mod Telling
