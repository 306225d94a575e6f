pub mod Freeing
pub mod Places
