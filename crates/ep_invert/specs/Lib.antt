pub mod Paint
pub mod Refusal
pub mod Stretch
pub mod Writing
pub mod Inverse
pub mod Restored
pub mod Undoing
