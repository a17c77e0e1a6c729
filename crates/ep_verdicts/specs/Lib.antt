-- Verdicts as they are written.
pub mod Lines
pub mod Written
pub mod Refusals
