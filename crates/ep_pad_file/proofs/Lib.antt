pub mod Standing
pub mod Left
pub mod Telling
pub mod Causes
pub mod Stopping
