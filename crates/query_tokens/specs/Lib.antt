pub mod Lex
pub mod Stream
pub mod FaultTexts
