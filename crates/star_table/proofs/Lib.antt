pub mod TotalSteps
pub mod AddSteps
pub mod StarSteps
pub mod PlaceSteps
pub mod GroupMerge
pub mod TailSteps
