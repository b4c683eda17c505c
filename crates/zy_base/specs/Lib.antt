pub mod Cause
pub mod Counts
pub mod Machine
pub mod Step
