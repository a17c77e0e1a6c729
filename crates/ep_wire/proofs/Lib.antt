pub mod Glue
pub mod Arrays
pub mod Rising
pub mod Back
pub mod Ready
pub mod Inserted
pub mod Named
pub mod ReadWith
