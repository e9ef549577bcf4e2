pub mod Bounds
pub mod InFile
pub mod Calls
