pub mod Cuts
pub mod Folders
pub mod Rests
pub mod TraceCuts
pub mod TraceReading
pub mod CaseLines
pub mod CaseReadings
pub mod DigitValues
