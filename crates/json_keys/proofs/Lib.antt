pub mod Items
pub mod Read
pub mod Places
pub mod Checks
pub mod Answered
