pub mod Described
pub mod Held
pub mod Inside
pub mod Lent
pub mod Dropped
pub mod Given
pub mod Puts
pub mod Decided
