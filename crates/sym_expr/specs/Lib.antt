pub mod Stores
pub mod Weights
pub mod sym_steps
