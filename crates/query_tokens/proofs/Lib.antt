pub mod Ends
pub mod Quotes
pub mod Streams
