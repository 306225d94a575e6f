pub mod Starts
pub mod Answer
pub mod Running
pub mod Laws
pub mod Comparison
pub mod inner
