-- Laws of the definitions, proved: those of each aggregate, of states of any kind, and of rows of
-- them.
pub mod Permuted
pub mod Bytes
pub mod NumberBytes
pub mod Counts
pub mod Sums
pub mod Leasts
pub mod Greatests
pub mod Averages
pub mod States
pub mod Rows
pub mod Order
