pub mod ScanLemmas
pub mod ReadLemmas
pub mod ListLemmas
pub mod LookLemmas
pub mod QueryLemmas
pub mod DropLemmas
mod GeneratedLemmas
mod GenerateLemmas
pub mod ScriptLemmas
pub mod IdleLemmas
pub mod AttachLemmas
