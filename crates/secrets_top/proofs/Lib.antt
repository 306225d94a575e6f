pub mod OtherSecrets
pub mod Outcomes
pub mod Promised
pub mod Statuses
pub mod Touching
pub mod OverWords
