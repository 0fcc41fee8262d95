pub mod Moves
pub mod Covered
pub mod Tells
pub mod Selects
pub mod Goals
pub mod Names
pub mod Queries
pub mod Edges
