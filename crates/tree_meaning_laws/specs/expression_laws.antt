pub mod Sits
pub mod Follows
pub mod Contexts
pub mod Flows
pub mod Laws
