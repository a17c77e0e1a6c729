pub mod Front
pub mod Floats
pub mod Depths
pub mod Spelled
