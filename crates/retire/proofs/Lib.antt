pub mod Quiet
pub mod Turns
pub mod Leaving
