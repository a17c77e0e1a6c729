pub mod Changes
pub mod Step
pub mod Revised
pub mod Texts
pub mod Taking
pub mod Telling
pub mod Answers
