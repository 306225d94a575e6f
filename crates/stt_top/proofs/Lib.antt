pub mod Turns
pub mod Cycles
pub mod CoreTexts
pub mod Tasks
pub mod Outcomes
pub mod Statuses
pub mod Promised
pub mod OverWords
