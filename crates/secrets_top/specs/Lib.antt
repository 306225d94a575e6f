pub mod Verdict
pub mod Ranges
pub mod Refused
pub mod Top
pub mod Promises
pub mod inner
