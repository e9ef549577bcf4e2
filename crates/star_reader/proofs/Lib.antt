pub mod WeightSteps
pub mod TakeSteps
pub mod PassSteps
pub mod FaultSteps
pub mod ReadSteps
pub mod TestSteps
pub mod PartSteps
pub mod KeySteps
