pub mod Places
pub mod Effects
pub mod Clearable
pub mod Walking
pub mod InPlace
pub mod Anew
pub mod Learnt
