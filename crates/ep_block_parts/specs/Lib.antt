pub mod Spans
pub mod Inside
pub mod Splices
pub mod Seen
