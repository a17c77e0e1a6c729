pub mod Revisions
pub mod Codes
pub mod Held
pub mod Near
