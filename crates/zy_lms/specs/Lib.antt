pub mod Height
pub mod Tree
pub mod Nodes
pub mod KeyState
pub mod Lms
pub mod Hss
