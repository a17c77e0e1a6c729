pub mod Along
pub mod Beginning
pub mod Refused
