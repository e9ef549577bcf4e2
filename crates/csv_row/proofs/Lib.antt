pub mod CellLemmas
pub mod ColumnLemmas
mod Fields
pub mod InOrder
pub mod RowLemmas
