pub mod Pairing
pub mod Lone
pub mod Ascii
pub mod Back
pub mod Cleaning
pub mod Digits
pub mod Reading
