pub mod Answer
pub mod Choice
pub mod Furthest
pub mod Marks
pub mod Reports
pub mod Rules
