pub mod Makes
pub mod Inside
pub mod PairEnds
pub mod Documents
pub mod Splices
