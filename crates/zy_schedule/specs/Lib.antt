pub mod Lines
pub mod Texts
pub mod Reading
pub mod Making
