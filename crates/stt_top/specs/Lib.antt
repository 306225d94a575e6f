pub mod Outcome
pub mod Clocking
pub mod Running
pub mod Work
pub mod Top
pub mod Promises
pub mod inner
