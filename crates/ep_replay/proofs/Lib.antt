pub mod Sameness
pub mod Standing
pub mod Telling
pub mod Births
