pub mod Faults
pub mod Fields
pub mod Image
pub mod inner
