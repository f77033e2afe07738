pub mod Cells
pub mod Fitting
pub mod Editable
pub mod Undoing
pub mod Restoring
pub mod StepLaws
pub mod CallLaws
pub mod Fields
