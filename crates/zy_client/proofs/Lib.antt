mod PollLemmas
mod CertificateLemmas
mod EvidenceLemmas
mod HeldLemmas
mod RefusedLemmas
mod StartLemmas
