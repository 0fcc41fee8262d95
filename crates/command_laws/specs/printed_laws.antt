pub mod Named
pub mod Unreachable
pub mod Bounds
pub mod Goals
pub mod Written
