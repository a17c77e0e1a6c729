pub mod DiskCalls
pub mod Faults
pub mod Files
pub mod Held
pub mod Sink
pub mod Slots
pub mod Source
