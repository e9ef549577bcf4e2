pub mod FirstLaws
pub mod NumberLaw
pub mod AggLaws
