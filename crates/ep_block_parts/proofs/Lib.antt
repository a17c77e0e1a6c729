pub mod Spans
pub mod Texts
pub mod Tails
pub mod Spliced
