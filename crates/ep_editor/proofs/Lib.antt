pub mod Fitting
pub mod Lifting
pub mod Resuming
pub mod Signing
pub mod Rules
pub mod History
pub mod Keeping
