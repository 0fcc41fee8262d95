pub mod Covered
pub mod Filters
pub mod Conditions
pub mod Names
pub mod Units
pub mod Queries
pub mod Edges
