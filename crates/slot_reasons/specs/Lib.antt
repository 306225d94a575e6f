pub mod Reasons
pub mod Kept
pub mod Slots
pub mod Laws
pub mod inner
