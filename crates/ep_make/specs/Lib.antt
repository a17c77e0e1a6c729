pub mod Generator
pub mod Draws
pub mod Round
pub mod Schedule
pub mod Same
pub mod Lines
pub mod Made
