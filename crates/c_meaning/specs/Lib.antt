pub mod Laws
pub mod Pairs
pub mod Places
pub mod Runs
pub mod Starts
pub mod Steps
pub mod Storage
