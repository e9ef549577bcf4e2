pub mod Documents
pub mod Docs
pub mod Columns
pub mod Cells
pub mod Region
pub mod Packing
pub mod Grouping
