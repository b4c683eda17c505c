pub mod Acts
pub mod Tied
pub mod Example
