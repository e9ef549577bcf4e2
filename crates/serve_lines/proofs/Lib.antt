mod MachineLemmas
mod OverLemmas
mod CallLemmas
pub mod LineLemmas
mod FreshLemmas
mod OpenLemmas
mod BeginLemmas
mod GoingLemmas
mod SessionLemmas
mod ReplaceLemmas
mod FinishLemmas
mod BuildLemmas
mod BuiltLemmas
