pub mod CallLemmas
pub mod FilesLemmas
pub mod KeptLemmas
pub mod TableFileLemmas
pub mod NameLemmas
pub mod AcceptedLemmas
pub mod CountLemmas
pub mod SegmentLemmas
pub mod DropLemmas
mod OpenLemmas
pub mod StandsLemmas
mod KeepLemmas
pub mod CopyLemmas
pub mod KeyLemmas
pub mod ImageLemmas
