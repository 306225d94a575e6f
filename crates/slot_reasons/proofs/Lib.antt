pub mod Counting
pub mod Events
pub mod QueueEvents
pub mod QueueIssue
pub mod QueuePhases
pub mod QueueRun
pub mod Sums
pub mod Worked
