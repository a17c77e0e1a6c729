pub mod Rows
pub mod ServerRows
pub mod ReadWith
pub mod Tokens
