pub mod Scans
pub mod Documents
pub mod Agreement
pub mod Images
pub mod LeastReads
