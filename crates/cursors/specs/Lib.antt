pub mod Kept
pub mod Added
pub mod Answered
pub mod Opened
