pub mod ViewFrameLengths
