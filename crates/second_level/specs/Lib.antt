pub mod Second
