pub mod Pairs
pub mod Indexes
pub mod IndexLists
pub mod Trees
pub mod Heads
