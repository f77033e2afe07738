pub mod Keeping
pub mod Agreeing
pub mod Writing
pub mod Alike
pub mod Meaning
pub mod Leaving
pub mod Marking
pub mod Wanting
pub mod Backs
pub mod Telling
pub mod Turning
pub mod Going
pub mod Asking
mod Paths
mod Mattering
mod Unlike
mod EachRead
mod EachAtomic
mod EachHelper
mod EachMatters
pub mod Passing
mod Joining
