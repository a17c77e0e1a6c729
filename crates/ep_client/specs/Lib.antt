pub mod Codes
pub mod Held
pub mod Refusals
pub mod Hearing
pub mod Submitting
pub mod Restored
