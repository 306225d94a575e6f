pub mod Stats
pub mod Outcome
pub mod Top
pub mod inner
