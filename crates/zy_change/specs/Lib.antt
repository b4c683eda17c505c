pub mod Views
pub mod Choosing
pub mod Owing
pub mod Fit
pub mod Ahead
pub mod Judging
pub mod Confirming
pub mod EnteringAhead
