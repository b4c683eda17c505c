pub mod Lines
pub mod Files
pub mod Hosted
pub mod Calls
pub mod Identity
pub mod KeptFiles
pub mod Recovered
pub mod Serving
