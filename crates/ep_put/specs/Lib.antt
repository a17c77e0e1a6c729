pub mod Whole
pub mod Putting
pub mod Steps
