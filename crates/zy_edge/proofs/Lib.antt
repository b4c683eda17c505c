pub mod FirstNamed
pub mod ClockLemmas
pub mod LinkLemmas
