pub mod Ids
pub mod Keys
pub mod Values
pub mod Answers
pub mod Faults
pub mod Readings
