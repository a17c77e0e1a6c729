pub mod Signing
pub mod Writing
