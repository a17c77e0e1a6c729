pub mod Nops
pub mod Held
pub mod Making
pub mod Answering
pub mod Rereading
