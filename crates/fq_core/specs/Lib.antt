pub mod Code
pub mod Refusals
pub mod Word
