pub mod FrameLengths
