pub mod Rows
pub mod Settings
pub mod Numbers
pub mod Bits
pub mod LeastLaws
pub mod Descents
pub mod Openings
