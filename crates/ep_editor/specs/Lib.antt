pub mod Bads
pub mod Replies
pub mod Past
pub mod Kept
pub mod Inside
pub mod Requests
pub mod Comes
pub mod Rules
