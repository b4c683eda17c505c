pub mod Binding
pub mod Clock
pub mod Faults
pub mod Files
pub mod Link
pub mod Memory
pub mod Sink
pub mod Stored
