pub mod Match
pub mod Letters
pub mod Paths
pub mod Places
pub mod Segments
