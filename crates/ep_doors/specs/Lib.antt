pub mod Coming
pub mod Serving
