pub mod Rows
pub mod Reassembled
pub mod Words
pub mod Same
