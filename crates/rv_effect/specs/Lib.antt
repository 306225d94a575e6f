pub mod Called
pub mod Seen
