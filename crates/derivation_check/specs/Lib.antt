pub mod Marks
pub mod Tasks
pub mod Verdicts
