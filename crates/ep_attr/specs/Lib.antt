pub mod AttrMap
pub mod Codes
pub mod Attrs
pub mod Merged
pub mod Rule
pub mod Equal
