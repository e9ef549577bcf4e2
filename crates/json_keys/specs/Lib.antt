pub mod Json
pub mod Faults
pub mod Keys
pub mod Readings
pub mod FaultTexts
pub mod NamedColumns
pub mod Leaf
