pub mod Running
pub mod AfterRun
pub mod ReplicaRows
pub mod ClientSlots
pub mod ClientRows
pub mod CommitRow
pub mod ReadAgain
