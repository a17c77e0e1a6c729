pub mod Causes
pub mod Tasks
pub mod Functions
pub mod Passes
pub mod Legal
pub mod Served
