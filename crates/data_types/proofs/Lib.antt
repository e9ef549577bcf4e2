pub mod Digits
pub mod PoolLemmas
pub mod TextLemmas
