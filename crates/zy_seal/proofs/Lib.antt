pub mod SealedLemmas
pub mod SignatureLemmas
