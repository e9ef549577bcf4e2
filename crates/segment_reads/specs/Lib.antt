pub mod Docs
pub mod Logs
pub mod Looked
pub mod Reads
