pub mod StateLemmas
pub mod CallLemmas
pub mod MakingLemmas
