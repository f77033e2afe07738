pub mod Limits
pub mod Lines
pub mod Refusals
pub mod Commands
pub mod ReadLines
pub mod Texts
pub mod SlotTexts
pub mod Shown
