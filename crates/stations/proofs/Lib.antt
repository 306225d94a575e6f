pub mod Numbers
pub mod Placing
pub mod Reading
pub mod Dropping
pub mod Leaving
mod Awaited
mod AbleMarks
mod MarkGone
