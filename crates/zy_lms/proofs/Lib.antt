pub mod TreeLemmas
pub mod NodesLemmas
pub mod LmsLemmas
pub mod FillLemmas
pub mod VerifiedLemmas
pub mod HssLemmas
pub mod HssSizes
pub mod HssVerifiedLemmas
