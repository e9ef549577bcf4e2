pub mod CellLemmas
pub mod SelectionLemmas
pub mod AddLemmas
pub mod FoldLemmas
pub mod RunLemmas
