pub mod AttemptAnswers
pub mod BeginningLemmas
pub mod ClientRefusals
pub mod Owed
pub mod RangeLemmas
pub mod Refusals
pub mod ReportLemmas
pub mod SentLemmas
