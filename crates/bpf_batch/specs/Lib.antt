pub mod Answers
pub mod Batches
pub mod Begins
