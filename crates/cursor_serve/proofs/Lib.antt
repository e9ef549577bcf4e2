pub mod FetchLemmas
pub mod SoundLemmas
pub mod NumberedLemmas
pub mod ServingLemmas
