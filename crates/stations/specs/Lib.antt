pub mod Stations
pub mod Places
