pub mod AskedLemmas
mod FindingLemmas
pub mod GroupLemmas
mod ParsedLemmas
mod QueryLemmas
mod ReplyLemmas
