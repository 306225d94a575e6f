pub mod Sized
pub mod Timely
pub mod Checkpoints
pub mod Known
pub mod InTurn
pub mod Laws
