pub mod Words
pub mod Frames
pub mod Lines
pub mod Telling
pub mod Tracing
