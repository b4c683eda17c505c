pub mod TestLemmas
pub mod ProofLemmas
pub mod ItselfLemmas
pub mod JudgedLemmas
