pub mod Lists
pub mod Newline
pub mod Texts
pub mod Client
pub mod Births
pub mod Equations
pub mod Refused
pub mod Seats
pub mod Sound
pub mod Cleaned
pub mod Recorded
pub mod Steps
pub mod Growing
pub mod Fetching
mod Rows
pub mod Answered
mod ClientRows
