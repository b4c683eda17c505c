pub mod Ready
pub mod Adopting
