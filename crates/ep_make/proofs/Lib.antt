pub mod Stretches
pub mod Played
pub mod Steps
pub mod Seen
pub mod Whole
pub mod One
