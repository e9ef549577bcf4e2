pub mod BuildLemmas
pub mod CreateLemmas
pub mod MachineLemmas
pub mod RowsLemmas
mod OwnTable
mod StopsLemmas
pub mod StoredLemmas
pub mod WritingLemmas
pub mod CheckLemmas
pub mod InputLemmas
mod DumpBuild
