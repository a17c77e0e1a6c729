pub mod Appending
pub mod Doing
pub mod Draws
pub mod Desks
pub mod Halls
pub mod Serving
pub mod Listed
pub mod Grouped
