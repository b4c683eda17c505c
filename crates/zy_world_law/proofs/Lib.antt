pub mod Tests
pub mod ReadBack
pub mod KeptTexts
pub mod OneText
pub mod Seats
pub mod StepLaws
pub mod DecodedInRange
pub mod DecodedReports
pub mod StillReady
pub mod Screened
pub mod KeptOrHeard
pub mod ToldSteps
pub mod CommitStays
pub mod ReplicaStep
pub mod GainsKept
pub mod IdleSteps
pub mod FineSteps
pub mod NotForged
pub mod Vouched
pub mod EventHeld
pub mod HonestReports
pub mod HonestEvents
pub mod BagStays
pub mod TextsStay
pub mod Agreeing
pub mod ClientStep
pub mod DoneStays
pub mod HeldLaw
pub mod Completing
pub mod Goings
pub mod ClientEvent
pub mod EachEvent
pub mod OwnStable
pub mod SafeFromGood
pub mod RunsSafe
pub mod RowCauses
pub mod Blameless
pub mod NoConflict
pub mod BlamelessEvents
pub mod StartGood
pub mod SmallRun
pub mod PassLaws
mod WorldSaid
mod OwnSaid
mod FaithfulSteps
mod FaithfulRuns
mod BackedRuns
