pub mod Values
pub mod Texts
pub mod Reading
pub mod Parties
pub mod Bytes
