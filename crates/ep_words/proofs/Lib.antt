pub mod Judged
pub mod Leaves
pub mod Numerals
pub mod Outcomes
pub mod Pads
