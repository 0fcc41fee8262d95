pub mod Words
pub mod Rows
pub mod Weights
pub mod Biases
pub mod Signs
