pub mod Placed
pub mod Bounds
