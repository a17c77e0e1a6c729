pub mod Places
pub mod Answer
pub mod Imported
pub mod Seen
pub mod Steps
pub mod Kept
