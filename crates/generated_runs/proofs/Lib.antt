pub mod Described
pub mod Agreed
pub mod Agreeing
