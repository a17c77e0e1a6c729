-- What files are, and when a shelf is not judged.
pub mod Verdicts
pub mod Files
pub mod Refusals
