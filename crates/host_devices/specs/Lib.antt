pub mod Faults
pub mod Locks
pub mod Names
pub mod Stream
