pub mod Keeping
pub mod Shown
pub mod Sound
mod Rows
