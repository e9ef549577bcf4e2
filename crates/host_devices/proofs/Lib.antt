mod NameEndLemmas
mod NameLemmas
mod StreamLemmas
