pub mod Votes
pub mod Board
pub mod Judging
pub mod States
