pub mod Ranges
pub mod Streams
pub mod Words
pub mod inner
