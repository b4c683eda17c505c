pub mod HeadLemmas
pub mod Lengths
