pub mod Floats
pub mod Numerals
pub mod Pads
