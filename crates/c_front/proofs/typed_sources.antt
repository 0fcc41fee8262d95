pub mod Causes
pub mod Fits
pub mod OneOutcome
pub mod Refusals
