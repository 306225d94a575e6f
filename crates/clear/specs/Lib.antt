pub mod Cleared
pub mod Clearable
