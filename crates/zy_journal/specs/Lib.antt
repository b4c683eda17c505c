pub mod Disk
pub mod Finding
pub mod Journal
pub mod Memory
pub mod Starting
