pub mod BlockSteps
pub mod FoldSteps
pub mod SlotDocs
pub mod SlotSteps
pub mod SortSteps
pub mod WordSteps
