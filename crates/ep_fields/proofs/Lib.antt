pub mod Texts
pub mod Pairs
pub mod Adding
pub mod Distinct
pub mod Again
pub mod Ascii
pub mod Spelled
