pub mod Walking
pub mod Deciding
pub mod Standing
pub mod Lending
