pub mod WalkSteps
pub mod ImageSteps
pub mod WithinSteps
pub mod TreePicks
pub mod CoverLemmas
pub mod CoverSteps
pub mod CoalesceSteps
