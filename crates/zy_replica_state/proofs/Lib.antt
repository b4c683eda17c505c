pub mod BoardLemmas
pub mod OwnLemmas
pub mod ReadyLemmas
pub mod RoundLemmas
pub mod BegunLemmas
pub mod AdoptLemmas
pub mod SpecLemmas
pub mod OthersLemmas
