pub mod Conns
pub mod Telling
pub mod Members
pub mod Undoing
pub mod Actors
pub mod Lending
