pub mod Pieces
pub mod Gathering
pub mod Order
