pub mod Still
pub mod Laws
