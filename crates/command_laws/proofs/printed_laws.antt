pub mod Walk
pub mod Numbers
pub mod Graphs
pub mod Small
pub mod Bounds
pub mod Goals
pub mod Written
