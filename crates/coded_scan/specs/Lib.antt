pub mod RowFilters
pub mod Marks
pub mod Added
pub mod Passed
pub mod KeysOfIds
