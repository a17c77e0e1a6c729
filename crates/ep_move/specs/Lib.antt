pub mod Text
pub mod Lines
pub mod Reread
pub mod Born
pub mod Untold
pub mod Told
pub mod Moving
pub mod Stopped
