pub mod Gained
pub mod Working
pub mod Gathers
pub mod Runs
pub mod Rows
pub mod NormalSteps
pub mod AtStart
pub mod WholeSteps
pub mod WholeGained
mod Adopts
mod SpelledAtStart
mod BeginRows
pub mod Decoded
pub mod DecodedFrames
mod SpelledGathers
mod Leaves
mod Reports
mod SpelledRuns
mod SameKeys
mod SaidBack
mod Sizes
mod Slots
mod ViewRows
mod SpelledWholeSteps
mod SpelledWorking
mod PartsBack
mod Passing
mod PassingStates
mod PassingViews
mod PassingRows
mod PassingClient
pub mod PassingParts
mod PassingTexts
