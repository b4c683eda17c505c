pub mod Entries
pub mod Answers
pub mod Heads
pub mod Stretch
pub mod Fields
pub mod Places
pub mod Sizes
