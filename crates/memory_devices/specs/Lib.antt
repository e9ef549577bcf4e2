pub mod Calls
pub mod FileMap
pub mod Memory
pub mod ReadLog
