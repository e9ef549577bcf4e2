pub mod Records
pub mod CellLemmas
pub mod ReadCells
pub mod ReadBack
