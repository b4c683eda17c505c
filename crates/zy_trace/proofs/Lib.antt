pub mod Ends
pub mod Framing
pub mod Likeness
pub mod Steps
pub mod Writing
