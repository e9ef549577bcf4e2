pub mod Columns
pub mod Numbers
pub mod Projection
pub mod Words
