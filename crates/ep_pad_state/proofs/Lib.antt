pub mod Pads
pub mod Outcomes
pub mod Noting
pub mod Keeping
pub mod Lasting
pub mod Readying
pub mod Taking
pub mod Telling
