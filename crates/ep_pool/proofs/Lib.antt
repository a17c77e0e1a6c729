pub mod Attrs
pub mod Reading
pub mod Gathering
pub mod Whole
pub mod Back
pub mod Texts
pub mod Index
pub mod Found
