pub mod AddedLemmas
pub mod PoolLemmas
mod StoredLemmas
pub mod StillLemmas
mod MovedLemmas
mod OwnerLemmas
pub mod NewLemmas
mod FileLemmas
mod FoundLemmas
