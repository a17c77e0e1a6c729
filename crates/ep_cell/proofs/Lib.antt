pub mod Histories
pub mod Keeping
pub mod Calling
pub mod Crossing
