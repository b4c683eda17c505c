pub mod AnchorLemmas
pub mod ChoiceLemmas
pub mod FurthestLemmas
pub mod MarkLemmas
pub mod OneAnswer
pub mod ProviderLemmas
