pub mod Traffic
pub mod Held
