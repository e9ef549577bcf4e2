pub mod Defaults
pub mod Fields
pub mod Entries
pub mod Schemas
