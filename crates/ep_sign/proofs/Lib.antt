mod Rows
pub mod Signed
pub mod Steps
pub mod Walk
pub mod Loop
