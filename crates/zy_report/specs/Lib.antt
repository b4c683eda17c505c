pub mod Lines
pub mod KeyFile
