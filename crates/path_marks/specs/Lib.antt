pub mod State
pub mod Moved
pub mod Walked
