pub mod BlockLemmas
pub mod ChainLemmas
pub mod CoefLemmas
pub mod OneTimeLemmas
pub mod NumberLemmas
