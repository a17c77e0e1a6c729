pub mod Register
pub mod Named
pub mod Registry
pub mod Told
pub mod Pads
pub mod Directory
pub mod Replies
