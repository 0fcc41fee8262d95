pub mod Chains
pub mod Groups
