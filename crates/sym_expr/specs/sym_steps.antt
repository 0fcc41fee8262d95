pub mod Cells
pub mod Effects
pub mod Operated
pub mod Starts
pub mod Steps
pub mod Weights
