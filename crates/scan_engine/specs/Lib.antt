pub mod Numbers
pub mod Selection
pub mod Scanned
pub mod Places
