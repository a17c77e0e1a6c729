pub mod Blocks
pub mod Forms
pub mod Inside
pub mod Splices
