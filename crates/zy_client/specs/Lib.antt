pub mod Ready
pub mod Stepped
pub mod Held
