pub mod HeadLemmas
pub mod NamedLemmas
pub mod EmptyLemmas
mod LoadLemmas
pub mod FoundLemmas
pub mod IdsIn
mod AskedLemmas
mod IdsTest
