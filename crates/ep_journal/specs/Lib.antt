pub mod File
pub mod Frame
pub mod Held
pub mod Journal
pub mod Reads
pub mod Refusals
pub mod Repair
pub mod Walking
