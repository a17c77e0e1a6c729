pub mod Standing
pub mod PadFile
pub mod Refusals
pub mod Stopping
