pub mod Marks
pub mod Good
pub mod Clients
pub mod Seats
pub mod Hears
pub mod Takes
pub mod Runs
pub mod Parts
pub mod Hearing
pub mod Grow
pub mod Keep
mod Rows
