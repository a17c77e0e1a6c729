pub mod Causes
pub mod Rereading
pub mod Gate
pub mod Naming
pub mod One
pub mod Telling
