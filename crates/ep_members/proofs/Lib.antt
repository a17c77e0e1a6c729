pub mod Places
pub mod Remaking
