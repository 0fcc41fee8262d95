pub mod ReadTexts
pub mod OneOutcome
pub mod Typable
pub mod Narrowed
pub mod Rows
pub mod GoesWith
