pub mod CommonLemmas
pub mod GotLemmas
pub mod MeetLemmas
pub mod TakenLemmas
pub mod PlaceLemmas
