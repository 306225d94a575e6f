pub mod Opening
pub mod Whole
pub mod Fetched
pub mod Lending
pub mod Younger
pub mod Sizes
pub mod Advancing
pub mod Waking
