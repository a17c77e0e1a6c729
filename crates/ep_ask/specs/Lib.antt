pub mod Names
pub mod Parameters
pub mod Calls
pub mod Requests
pub mod Replies
