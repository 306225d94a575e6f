pub mod Leaks
pub mod Waits
pub mod Laws
pub mod PathMarks
pub mod Certified
pub mod Worked
