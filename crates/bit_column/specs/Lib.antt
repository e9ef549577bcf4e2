pub mod Unpacked
pub mod Bits
pub mod Column
pub mod Sections
pub mod Postings
pub mod Reading
pub mod Faults
pub mod SortedRuns
