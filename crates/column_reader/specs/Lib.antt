pub mod Forward
pub mod Picked
pub mod Bytes
pub mod Faults
pub mod Calls
