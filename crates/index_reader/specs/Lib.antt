pub mod Buckets
pub mod Documents
pub mod Entries
pub mod Logs
pub mod Reading
pub mod Runs
