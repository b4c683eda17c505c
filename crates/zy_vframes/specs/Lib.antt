pub mod ViewFrames
pub mod Parts
pub mod Sizes
pub mod ViewFrameLaws
