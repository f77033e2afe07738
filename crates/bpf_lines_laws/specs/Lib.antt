pub mod Origins
pub mod Kept
pub mod Joins
pub mod Laws
