pub mod Combining
pub mod Kept
pub mod Kinds
pub mod Names
pub mod Parts
pub mod Properties
pub mod Standing
pub mod Incoming
