pub mod Numbers
pub mod Statements
pub mod Signing
pub mod Exact
pub mod Reports
pub mod ReportsExact
pub mod Sizes
