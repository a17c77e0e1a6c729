pub mod Local
pub mod Makes
