pub mod CountLemmas
pub mod ReadLemmas
pub mod SeenLemmas
pub mod SeriesLemmas
