pub mod Magnitude
pub mod Numbers
pub mod Pools
pub mod Shared
pub mod Texts
pub mod formers
