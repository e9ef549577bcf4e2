pub mod Walking
pub mod Images
pub mod Coalescing
pub mod Covering
