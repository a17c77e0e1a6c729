pub mod Limits
pub mod Missing
pub mod Spoken
