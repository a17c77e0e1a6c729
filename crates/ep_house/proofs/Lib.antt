pub mod Finding
pub mod Opened
pub mod Placing
pub mod Halls
pub mod Crossing
pub mod Replying
