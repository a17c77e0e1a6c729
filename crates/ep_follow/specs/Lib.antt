pub mod Follows
pub mod Gaps
pub mod Following
pub mod Writing
