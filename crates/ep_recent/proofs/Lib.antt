pub mod Led
pub mod Told
pub mod From
