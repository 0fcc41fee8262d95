pub mod Placed
pub mod Walks
pub mod Parts
pub mod GapWords
