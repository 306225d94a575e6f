pub mod Generated
pub mod Encoded
