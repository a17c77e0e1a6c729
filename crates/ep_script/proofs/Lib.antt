pub mod Reading
pub mod Rows
pub mod Escapes
pub mod Numbers
pub mod Spaces
pub mod Whole
pub mod Grammar
