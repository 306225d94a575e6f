pub mod Marked
pub mod InStep
pub mod Watched
