pub mod Steps
pub mod Simulates
pub mod Laws
