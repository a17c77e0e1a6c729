pub mod Bytes
pub mod Formats
pub mod Reading
