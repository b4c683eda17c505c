pub mod ReplayLemmas
mod ListedLemmas
pub mod HistoryLemmas
pub mod SettleLemmas
mod ShotLemmas
mod SnapshotLemmas
mod InstallLemmas
mod ShowingLemmas
