pub mod Picks
pub mod Reads
pub mod Groups
pub mod Flat
pub mod FlatNodes
pub mod NodeRules
pub mod Shares
pub mod Worked
