pub mod Follows
pub mod Flows
pub mod Laws
