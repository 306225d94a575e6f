pub mod Queues
pub mod Merging
pub mod Gathering
pub mod Pending
pub mod Clearing
pub mod Keepers
