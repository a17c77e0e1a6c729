pub mod Kept
pub mod Reading
pub mod Shelving
pub mod Touching
