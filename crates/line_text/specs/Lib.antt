pub mod Digits
pub mod EndLine
pub mod inner
