mod OneMore
mod AsTold
pub mod FrameLengths
pub mod KeptLemmas
pub mod ListLemmas
pub mod SaidLemmas
