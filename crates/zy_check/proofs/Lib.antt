pub mod VoteLemmas
pub mod TallyLemmas
pub mod BoardLemmas
pub mod JudgingLemmas
pub mod ChangeLemmas
