pub mod Signers
pub mod Equal
pub mod Points
pub mod Votes
pub mod Certificates
pub mod Misbehaviour
