mod Counted
mod Ends
mod Columns
mod Pruned
mod Emptied
mod Images
mod OnePlan
mod OneFactors
mod OverRows
pub mod ServedLemmas
