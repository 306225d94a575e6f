pub mod Older
pub mod Gathers
pub mod Awaiting
mod Wrong
mod Absent
mod Rising
pub mod Far
