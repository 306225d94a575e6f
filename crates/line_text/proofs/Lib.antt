pub mod Pairs
pub mod Decimals
