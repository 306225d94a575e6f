pub mod Adding
pub mod AtMost
pub mod Distinct
pub mod Each
pub mod Events
pub mod Plain
pub mod Sums
pub mod Worked
