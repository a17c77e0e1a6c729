pub mod Recent
pub mod Codes
pub mod Held
