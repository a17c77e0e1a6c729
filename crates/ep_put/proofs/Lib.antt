pub mod NewFile
pub mod Gated
pub mod Telling
pub mod Empty
