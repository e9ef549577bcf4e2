pub mod Docs
pub mod Kept
pub mod Marks
pub mod Sets
