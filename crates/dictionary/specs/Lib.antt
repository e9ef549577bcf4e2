pub mod Coded
pub mod Keys
pub mod Laws
pub mod Pieces
pub mod Ranking
pub mod Reading
pub mod Spelling
