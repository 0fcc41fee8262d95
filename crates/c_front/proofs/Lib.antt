pub mod CodeLaws
pub mod OneOutcome
pub mod Refusals
