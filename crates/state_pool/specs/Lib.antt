pub mod Pool
pub mod Kept
pub mod Lent
