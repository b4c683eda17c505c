pub mod Carrying
pub mod Follows
pub mod Signing
pub mod Ending
pub mod Out
pub mod Entering
pub mod Fetching
