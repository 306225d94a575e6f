pub mod Loaded
pub mod Refused
pub mod Input
pub mod Told
pub mod Note
pub mod inner
