pub mod Turns
pub mod Pieces
mod Blocks
