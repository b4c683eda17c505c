pub mod Keys
pub mod Checking
pub mod Sealing
pub mod Derived
pub mod Screening
