pub mod Blocks
pub mod Splices
