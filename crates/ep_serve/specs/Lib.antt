pub mod Asked
pub mod Work
pub mod Server
