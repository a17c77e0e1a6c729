pub mod Keys
pub mod Maps
pub mod Merge
pub mod SameMap
