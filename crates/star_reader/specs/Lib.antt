pub mod Entries
pub mod Asked
pub mod Answers
pub mod Selected
pub mod Taken
