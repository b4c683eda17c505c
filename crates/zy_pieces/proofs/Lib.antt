pub mod SlotLemmas
pub mod PlaceLemmas
pub mod PieceLemmas
pub mod OrderLemmas
pub mod CutLemmas
