pub mod Parting
pub mod Receiving
pub mod Cutting
pub mod Steps
pub mod Walking
pub mod Still
pub mod Altering
pub mod Saying
