pub mod Machine
pub mod Laws
pub mod Sound
pub mod Numbered
pub mod ServingStands
