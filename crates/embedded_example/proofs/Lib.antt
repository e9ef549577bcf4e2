pub mod VisitLemmas
mod TurnLemmas
