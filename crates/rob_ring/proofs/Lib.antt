pub mod AtPositions
pub mod Gaps
mod Flagged
mod Words
mod NextFlags
mod ByEnd
