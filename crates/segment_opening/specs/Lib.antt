pub mod Opened
pub mod Calls
pub mod Wanted
pub mod Emptied
pub mod Found
