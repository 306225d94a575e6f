pub mod Exits
pub mod Images
pub mod InTurn
pub mod Told
pub mod OverWords
