pub mod Programmed
pub mod Kept
pub mod Phases
pub mod Waiting
