pub mod Follows
pub mod Flows
pub mod Parts
pub mod Calls
pub mod ValueTrees
