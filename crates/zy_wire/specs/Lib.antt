pub mod Spelling
pub mod Fields
pub mod Reading
pub mod Kind
pub mod Getting
pub mod Framing
