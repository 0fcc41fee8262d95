pub mod Applied
pub mod Limits
pub mod Missing
pub mod Outcome
pub mod Trees
pub mod Within
