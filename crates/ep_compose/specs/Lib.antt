pub mod Composed
pub mod Composing
