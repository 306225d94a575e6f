pub mod Ports
pub mod Laws
pub mod inner
