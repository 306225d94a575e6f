pub mod Alike
pub mod Outcomes
pub mod InStep
pub mod Together
pub mod Laws
pub mod Gadgets
