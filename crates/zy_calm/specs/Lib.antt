pub mod Asks
pub mod Entries
pub mod Calm
pub mod Notes
pub mod Law
pub mod Example
pub mod Jobs
