pub mod Starting
pub mod Telling
pub mod Kept
pub mod Reading
pub mod Said
