pub mod Letting
pub mod Walking
pub mod Waiting
pub mod Standing
pub mod Looking
pub mod Showing
pub mod Lending
