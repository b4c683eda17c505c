pub mod Endings
pub mod Known
pub mod Stops
pub mod Told
