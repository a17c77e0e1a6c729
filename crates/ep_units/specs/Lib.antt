pub mod Text
pub mod Base36
pub mod Utf8
pub mod Clean
pub mod Halves
pub mod PadId
