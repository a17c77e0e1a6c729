pub mod Replied
pub mod Crossing
