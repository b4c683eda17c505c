pub mod Orders
pub mod Judging
