pub mod Parts
pub mod Turn
pub mod Gone
