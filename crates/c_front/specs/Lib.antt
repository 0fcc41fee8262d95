pub mod Automata
pub mod Codes
pub mod Laws
pub mod typed_sources
