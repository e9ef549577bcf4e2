pub mod SlotLemmas
pub mod CellLemmas
mod PartSteps
pub mod OwnerLemmas
pub mod PoolSteps
pub mod HeldLemmas
mod KindSteps
mod PairSteps
mod WideSteps
