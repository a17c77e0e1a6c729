pub mod Keys
pub mod Exported
pub mod Spelled
