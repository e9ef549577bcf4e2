pub mod Building
pub mod Growing
pub mod Trees
