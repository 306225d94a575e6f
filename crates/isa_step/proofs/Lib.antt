pub mod Memory
pub mod Runs
pub mod Shape
pub mod Steps
