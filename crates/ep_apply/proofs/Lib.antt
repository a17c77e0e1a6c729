pub mod Painted
pub mod Walk
pub mod Ends
pub mod Refusals
pub mod Inserted
pub mod Again
pub mod Documents
pub mod Splices
