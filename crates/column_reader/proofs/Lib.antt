pub mod ByteLemmas
pub mod PickSteps
pub mod FaultLemmas
pub mod BlockSteps
pub mod LogLemmas
