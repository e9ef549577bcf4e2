pub mod Kinds
pub mod Order
pub mod Printed
pub mod Tests
pub mod Cells
pub mod Columns
pub mod Reading
