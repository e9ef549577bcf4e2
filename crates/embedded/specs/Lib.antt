pub mod Faults
pub mod Stores
pub mod Rows
pub mod Making
pub mod Calls
