pub mod Kept
pub mod Entering
pub mod Places
pub mod Held
