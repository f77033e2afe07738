pub mod Talking
pub mod Telling
pub mod Words
