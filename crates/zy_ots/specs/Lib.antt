pub mod OtsType
pub mod Coef
pub mod Link
pub mod Chain
pub mod OneTime
