mod HeadLemmas
pub mod Composed
mod Openings
mod Steps
mod IdsDictionary
mod LookupLemmas
mod TreeChecks
mod TreeSteps
pub mod ImageTrees
pub mod SectionBytes
mod Loops
pub mod FaultLemmas
pub mod SectionLemmas
mod PieceLemmas
