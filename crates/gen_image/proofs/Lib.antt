pub mod Words
pub mod Concat
pub mod Example
