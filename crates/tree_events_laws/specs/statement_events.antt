pub mod Simulates
pub mod Laws
