pub mod Calm
pub mod Outcomes
pub mod Waiting
