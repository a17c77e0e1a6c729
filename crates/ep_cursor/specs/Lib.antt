pub mod Left
pub mod Heads
pub mod Said
pub mod Made
pub mod TrueDraft
pub mod Part
