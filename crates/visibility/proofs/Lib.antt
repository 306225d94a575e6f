mod Stopping
pub mod Moving
pub mod Showing
