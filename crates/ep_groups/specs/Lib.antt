pub mod Directory
pub mod Policy
pub mod Members
pub mod History
pub mod Ours
pub mod Calls
pub mod Asking
