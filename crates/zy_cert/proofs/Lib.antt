pub mod SignerLemmas
pub mod VoteLemmas
pub mod CertificateLemmas
pub mod ConflictLemmas
