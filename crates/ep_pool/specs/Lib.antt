pub mod Pool
pub mod Json
pub mod Read
pub mod Searching
pub mod Index
pub mod Tree
pub mod TreeFalls
