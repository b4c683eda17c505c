pub mod Counts
pub mod Fields
pub mod Reading
pub mod Replay
pub mod Members
pub mod Secret
pub mod Own
