pub mod Gains
pub mod Heard
pub mod Whole
pub mod Spelled
pub mod Signs
