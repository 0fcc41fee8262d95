pub mod Answers
pub mod AtGoal
pub mod Order
pub mod Least
pub mod Fixing
pub mod Parts
