pub mod Seen
pub mod Masks
pub mod Laws
