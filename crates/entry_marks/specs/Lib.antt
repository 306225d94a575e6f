pub mod Beside
pub mod Walk
pub mod Oldest
pub mod IssuedNow
