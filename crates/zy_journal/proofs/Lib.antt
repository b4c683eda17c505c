pub mod Appends
pub mod Begins
pub mod Files
pub mod GateLemmas
pub mod Lists
pub mod Moments
pub mod Past
pub mod Told
