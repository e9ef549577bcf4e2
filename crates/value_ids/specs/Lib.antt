pub mod Blocks
pub mod Coding
pub mod Dictionary
pub mod Ids
pub mod Lists
