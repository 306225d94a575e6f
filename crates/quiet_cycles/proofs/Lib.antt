pub mod Nothing
pub mod Early
pub mod Turns
pub mod RenameFetch
pub mod Waiting
pub mod Later
pub mod Silent
pub mod Repeats
pub mod Sooner
mod Worked
