mod BlockLemmas
mod CountLemmas
mod DigitLemmas
mod HeaderLemmas
mod HeaderLine
mod LineBlocks
mod LineColumns
mod MarkLemmas
mod MarkedLines
mod NumberLemmas
mod NumberTextLemmas
mod PartLines
mod PartRows
mod KeptBlocks
mod KeptLemmas
mod KeptLines
mod PlaceLemmas
mod PlainLemmas
mod ReadingLemmas
mod SchemaLemmas
mod StepLemmas
pub mod ValidLemmas
pub mod ValidRows
pub mod UnicodeRows
pub mod FaultLemmas
