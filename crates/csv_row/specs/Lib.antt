pub mod Columns
pub mod FaultTexts
pub mod InOrder
pub mod Layouts
pub mod Row
