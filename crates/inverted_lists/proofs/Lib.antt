pub mod CountLemmas
pub mod CutLemmas
pub mod Placing
pub mod WordLemmas
