pub mod WideLemmas
mod FirstLemmas
pub mod HavingLemmas
mod AskedLemmas
mod WrittenLemmas
mod Joined
pub mod JointLemmas
mod OnceLemmas
mod PlaceLemmas
pub mod RowLemmas
mod WithinLemmas
mod FitLemmas
mod SpelledLemmas
mod SeveralLemmas
mod FunctionLemmas
mod Truth
mod TermLemmas
pub mod ValidLemmas
mod LookUpLemmas
mod BoundLemmas
