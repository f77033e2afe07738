pub mod Inquiries
pub mod Refusals
pub mod Messages
pub mod Strict
pub mod Conversations
pub mod Hearing
pub mod Failures
