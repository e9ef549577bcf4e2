pub mod Served
pub mod Tasks
pub mod OfRows
pub mod Segments
pub mod Covered
pub mod DocLaws
pub mod Merging
