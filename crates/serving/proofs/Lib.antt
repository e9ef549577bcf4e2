pub mod StandLemmas
pub mod PlaceLemmas
mod StepLemmas
pub mod OpenLemmas
pub mod OpenedLemmas
pub mod CloseLemmas
pub mod GoneLemmas
mod ClosedLemmas
mod CallLemmas
mod ReadLemmas
pub mod LeavingLemmas
mod AsideLemmas
