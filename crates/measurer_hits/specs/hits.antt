pub mod Hits
pub mod Inputs
pub mod Laws
