-- what a reader must believe
pub mod Rings
pub mod Cells
-- inner forms, which only private contracts and representations cite
pub mod Places
pub mod Columns
pub mod Shape
