pub mod Targets
pub mod Fetching
pub mod Items
pub mod Asked
