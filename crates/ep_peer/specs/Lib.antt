pub mod Cuts
pub mod Bads
pub mod Writer
pub mod Parts
pub mod Writes
pub mod Output
pub mod Altered
