pub mod Outside
pub mod Streams
pub mod MemorySink
pub mod MemoryFiles
