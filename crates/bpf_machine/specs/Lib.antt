pub mod Edits
pub mod Moves
pub mod Undoing
pub mod StepLaws
pub mod CallLaws
pub mod Fields
