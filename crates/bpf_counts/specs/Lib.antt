pub mod Walks
pub mod Btf
pub mod Files
pub mod Counted
