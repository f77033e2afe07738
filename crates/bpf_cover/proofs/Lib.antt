pub mod Grouping
pub mod Making
pub mod Marks
pub mod Placing
pub mod Records
