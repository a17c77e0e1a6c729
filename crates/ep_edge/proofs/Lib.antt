pub mod Named
pub mod Neighbours
