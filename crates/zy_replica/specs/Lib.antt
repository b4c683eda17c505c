pub mod Judging
pub mod Refusing
